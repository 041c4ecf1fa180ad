mod Lean
mod Marks
mod Passes
