mod Numbers
mod Frames
mod ReadBack
mod Tracks
mod Words
