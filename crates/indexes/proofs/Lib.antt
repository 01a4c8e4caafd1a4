mod Lookups
mod Offers
mod HandingOver
mod Outcomes
mod Rules
mod Triangles
mod EdgePairs
