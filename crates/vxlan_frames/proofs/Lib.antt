mod Answered
mod Parts
mod Passing
mod Places
mod Sums
mod Worked
mod Written
