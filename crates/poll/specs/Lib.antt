pub mod PReq
pub mod PRes
pub mod Poll
