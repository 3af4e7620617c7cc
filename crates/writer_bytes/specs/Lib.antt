pub mod WriterBytes
