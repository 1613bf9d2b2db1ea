mod Founding
mod ReferenceParts
pub mod ReplyRooms
pub mod RepliesBack
pub mod ReplyIsSayable
pub mod Sequences
mod Sourcing
mod ShownParts
pub mod Six
pub mod SaidReplies
pub mod SetSpelling
pub mod LeafSpelling
pub mod PartSpelling
pub mod AnswerSpelling
pub mod WholeSpelling
