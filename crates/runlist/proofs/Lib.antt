mod Counted
mod Told
