pub mod LeftStatuses
