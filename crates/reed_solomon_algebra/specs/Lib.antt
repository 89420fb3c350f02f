-- Reed-Solomon codes: what their code words are, and the law that they obey.
pub mod Polynomials
pub mod CodeWords
pub mod Laws
pub mod Division
pub mod Terms
