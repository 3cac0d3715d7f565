mod BodyRead
mod CloseForms
mod Cuts
mod Decoded
mod EmptyRead
mod EntryForms
pub mod FineTexts
mod FittingEmpties
mod FittingPolicies
mod FittingRefutations
mod Fittings
mod JudgedEmpties
mod JudgedPolicies
mod JudgedRefutations
pub mod JudgedTexts
mod LineForms
mod LinesFit
mod Moved
mod NextLines
mod NodePieces
pub mod PassingFits
pub mod PassingTexts
mod PolicyRead
mod Positions
mod Quotients
mod Rebuilt
mod RefuteRead
mod RowOrder
mod RowsSaid
mod TextLines
mod TextSplits
pub mod ThenLaws
mod TreeNodes
mod TreesRead
pub mod Turns
mod WholeRead
mod WordCuts
mod WordForms
mod Worked
