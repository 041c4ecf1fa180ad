mod Named
mod Plain
