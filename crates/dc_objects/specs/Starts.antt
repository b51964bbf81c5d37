-- What the start of a machine asks of its image.
use Rattle.std.specs.Prelude.{ℕ, ◌<◌, ◌^◌, List, [], Bool, Option, slice_get}
use Rattle.std.specs.Option.{option_map}
use Rattle.dc_base.specs.declared.images.BlockImage.{BlockImage}
use Rattle.dc_base.specs.declared.images.CoreImage.{CoreImage}
use Rattle.dc_base.specs.declared.kernels.Version.{Version}
use Rattle.dc_base.specs.declared.numbers.CoreNo.{CoreNo}
use Rattle.dc_base.specs.Channels.{Ring}
use Rattle.dc_base.specs.Words.{Each, bind, is_number}

-- every core's clock starts below 2^62
abbrev pub AreBases : List CoreImage → Type 0
AreBases cores = Each cores (λ c (k : CoreImage). k.base < 2 ^ 62)

-- a channel over which nothing was sent
abbrev pub idle_ring : ℕ → Ring
idle_ring capacity = record { capacity = capacity; untaken = []; sent = 0; taken = 0 }

-- whether core c is the block's home
abbrev pub is_home_of : ℕ → BlockImage → Bool
is_home_of c x = is_number c (option_map (λ (h : CoreNo). h.0) x.home)

-- a home that is on, with its version and the time of its clock
abbrev pub home_on : List CoreImage → Option CoreNo → Option (CoreNo × Version × ℕ)
home_on cores home = bind home (λ (h : CoreNo). bind (slice_get cores h.0) (λ (k : CoreImage). option_map (λ v. (h, v, k.base)) k.version))
