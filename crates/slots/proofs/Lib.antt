pub mod PlainWalk
