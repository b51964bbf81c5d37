-- What a console keeps.
use Rattle.std.specs.Prelude.{◌≤◌, length, vec_capacity}
use Rattle.dc_base.specs.Limits.{console_room}
use Rattle.dc_channel.specs.declared.console.Console.TheInside.{Inside}

-- no more words than a console takes, and memory for as many
pub record HasRoom (c : Inside) : Type 0 where
  pub within : length c.words.items ≤ console_room
  pub room : console_room ≤ vec_capacity c.words
