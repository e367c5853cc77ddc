pub mod Lists
pub mod NTriplesForm
pub mod Order
pub mod Same
pub mod formers
