mod Pieces
mod Clocks
mod NewLinks
mod NewEars
