pub mod PutLaws
pub mod RecordLaws
pub mod RingLaws
