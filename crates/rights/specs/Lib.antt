pub mod Values
pub mod Answers
pub mod InShops
pub mod ShopLaws
pub mod InArrays
pub mod ArrayLaws
