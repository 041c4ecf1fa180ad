pub mod Bools
pub mod TermLaws
pub mod ExprLaws
pub mod WordLaws
pub mod TokenLaws
pub mod LineLaws
pub mod FitLaws
pub mod PlainLaws
mod ShownTexts
mod ShownWords
mod ShownTerms
mod ShownValues
mod ShownLines
mod ShowableWords
mod ShowableTokens
mod ShowableLines
pub mod ShownLaws
pub mod GrammarLaws
