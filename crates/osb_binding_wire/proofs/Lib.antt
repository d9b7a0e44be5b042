pub mod BindsBack
pub mod BodyTexts
pub mod NamesJudged
pub mod NoTargets
pub mod PathsBack
pub mod SentBack
