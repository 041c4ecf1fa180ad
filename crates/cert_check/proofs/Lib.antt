mod Checked
mod Named
mod Truth
