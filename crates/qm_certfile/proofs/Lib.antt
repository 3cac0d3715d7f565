pub mod ToldEndings
pub mod Bounds
mod CertificateTexts
pub mod DifferentTexts
mod EmptyTold
pub mod LineSplits
pub mod LineTexts
mod LowestValues
mod NearRanges
pub mod NumberWords
pub mod PassingForms
pub mod Pieces
mod PolicyTold
mod RefuteTold
mod RightPieces
mod RowWords
mod TreeShapes
mod TreeTexts
