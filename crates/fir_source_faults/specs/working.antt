pub mod ReadsByPath
pub mod DrivesByPath
pub mod NumberedTaking
pub mod SameFaults
