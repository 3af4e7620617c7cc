pub mod Frames
pub mod Read
