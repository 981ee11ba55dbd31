mod Words
mod Events
