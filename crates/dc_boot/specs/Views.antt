-- Numbers of cores and blocks, with and without their types.
use Rattle.std.specs.Prelude.{ℕ, Option, List, map}
use Rattle.std.specs.Option.{option_map}
use Rattle.dc_base.specs.declared.numbers.BlockNo.{BlockNo}
use Rattle.dc_base.specs.declared.numbers.CoreNo.{CoreNo}

abbrev pub place_of : Option CoreNo → Option ℕ
place_of o = option_map (λ (c : CoreNo). c.0) o

abbrev pub core_at : Option ℕ → Option CoreNo
core_at o = option_map (λ n. record { 0 = n }) o

abbrev pub home_of : Option BlockNo → Option ℕ
home_of o = option_map (λ (b : BlockNo). b.0) o

abbrev pub numbers_of : List BlockNo → List ℕ
numbers_of bs = map (λ (b : BlockNo). b.0) bs
