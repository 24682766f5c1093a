-- Laws that hold the definitions of specs/ in their place.
pub mod Samples
pub mod Laws
pub mod MessageLaws
pub mod TableLaws
pub mod RecordLaws
pub mod ReadingLaws
pub mod EventLaws
pub mod RefusalLaws
pub mod DeriveLaws
pub mod SkeletonLaws
pub mod StrandMapLaws
pub mod RepeatLaws
pub mod QuestionLaws
pub mod SaysLaws
pub mod LinesLaws
pub mod ReportLaws
