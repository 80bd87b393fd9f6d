pub mod Differs
pub mod Rounds
pub mod Again
pub mod Previews
