pub mod ArrayWritten
