pub mod Written
pub mod Lists
pub mod AnswerLines
pub mod ReaderSteps
pub mod WriterSteps
