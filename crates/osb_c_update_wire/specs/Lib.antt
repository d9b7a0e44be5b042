pub mod Answers
pub mod Asked
pub mod Catalogues
pub mod Received
pub mod Refusals
