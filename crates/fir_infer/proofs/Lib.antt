pub mod InferencePass
