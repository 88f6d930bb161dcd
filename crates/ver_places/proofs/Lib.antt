pub mod AtomLists
pub mod PlacesBehind
pub mod SidePlaces
pub mod WritePlaces
pub mod ItemStarts
