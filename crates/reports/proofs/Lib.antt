mod Filled
mod Lines
mod ReadBack
