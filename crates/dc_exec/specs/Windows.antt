-- What a window's fields stand for.
use Rattle.std.specs.Prelude.{◌≡◌, ◌≤◌, length}
use Rattle.dc_exec.specs.declared.windows.Window.TheInside.{Inside}
use Rattle.dc_exec.specs.Changes.{Overlay}

abbrev pub overlay_seen : Inside → Overlay
overlay_seen w = record { below = w.words.now; changes = w.changes.items }

-- 4,096 words, and at most 64 changes of them
pub record IsWindow (w : Inside) : Type 0 where
  pub words : length w.words.now ≡ 4096
  pub room : length w.changes.items ≤ 64
