-- What a call needs of the objects that there are. A claim may be of a line that does not exist; the channels and consoles that calls need always do.
use Rattle.std.specs.Prelude.{nat_lt, if◌then◌else◌}
use Rattle.dc_base.specs.declared.calls.Need.{Need}
use Rattle.dc_base.specs.declared.calls.Need.TheVariants as needs
use Rattle.dc_base.specs.States.{Settings}

-- nothing is needed where the line does not exist
abbrev pub need_here : Settings → Need → Need
need_here t (needs.Line l) = if nat_lt l.0 t.lines then needs.Line l else needs.Nothing
need_here t n = n
