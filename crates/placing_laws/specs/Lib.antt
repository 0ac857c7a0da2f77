pub mod OneThread
