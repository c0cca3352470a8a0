mod Arranged
mod Parts
mod Words
