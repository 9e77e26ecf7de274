mod Sides
mod Within
mod WellFormed
