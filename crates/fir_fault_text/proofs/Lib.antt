pub mod PutEach
