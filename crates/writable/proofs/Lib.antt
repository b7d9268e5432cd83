pub mod CallsSound
