mod Firsts
pub mod Words
mod Showing
mod Titles
mod Lining
mod Asking
