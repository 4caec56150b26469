-- What inner contracts cite. No statement rests on it.
pub mod Bytes
pub mod Bits
