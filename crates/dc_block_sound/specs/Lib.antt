pub mod SoundControls
