-- The start of an image is an opening, and the one that the image's own words say.
use Rattle.std.proofs.Common.{◌≡◌, ℕ, zero, suc, List, [], ◌∷◌, ◌++◌, None, refl, sym, ap, ◌∙◌, subst, map, length, replicate}
use Rattle.dc_base.specs.declared.images.Image.{Image}
use Rattle.dc_base.specs.declared.images.BlockImage.{BlockImage}
use Rattle.dc_base.specs.declared.images.ChanImage.{ChanImage}
use Rattle.dc_base.specs.declared.images.CoreImage.{CoreImage}
use Rattle.dc_base.specs.declared.commands.ScriptLine.{ScriptLine}
use Rattle.dc_base.specs.Words.{Each}
use Rattle.dc_base.specs.Parts.{parts_of}
use Rattle.dc_base.specs.ControlBlocks.{control_start}
use Rattle.dc_base.specs.Blocks.{blocks_start}
use Rattle.dc_base.specs.States.{Block, empty, block_started, idle_wire, core_start}
use Rattle.dc_base.specs.Report.{latches_of}
use Rattle.dc_base.specs.Runs.{seen_start}
use Rattle.dc_base.specs.Sound.{IsSound}
use Rattle.dc_base.specs.Telling.{seen_of}
use Rattle.dc_base.specs.Valid.{IsValid}
use Rattle.dc_base.specs.Origins.{image_origin}
use Rattle.dc_base.specs.Openings.{IsUnsent, IsOpening, blocks_opened, opening_origin}
use Rattle.dc_refine.proofs.Follow.{agrees_is}
use Rattle.dc_refine.proofs.CoreStarts.{start_stands, start_agrees}
use Rattle.dc_refine.proofs.LatchCounts.{numbers_in, numbers_of, latches-counted}
use Rattle.dc_refine.proofs.Opened.{opening_alone}

-- what each element of a list becomes
each_map : {A B : Type 0} (f : A → B) (P : B → Type 0) → ((x : A) → P (f x)) → (xs : List A) → Each (map f xs) (λ i y. P y)
each_map f P h [] i y e = absurd cc
each_map f P h (x ∷ xs) zero y e = let same : f x ≡ y = cc in subst P same (h x)
each_map f P h (x ∷ xs) (suc i) y e = each_map f P h xs i y e

each_alike : {A : Type 0} (x : A) (n : ℕ) → Each (replicate n x) (λ i y. y ≡ x)
each_alike x zero i y e = absurd cc
each_alike x (suc n) zero y e = let same : x ≡ y = cc in sym same
each_alike x (suc n) (suc i) y e = each_alike x n i y e

none_numbered : (l n : ℕ) → numbers_in l (replicate n None) ≡ []
none_numbered l zero = refl
none_numbered l (suc n) = none_numbered l n

no_numbers : (l : ℕ) (bs : List BlockImage) → numbers_of l (map parts_of bs) ≡ []
unfolding parts_of
no_numbers l [] = refl
no_numbers l (b ∷ bs) = ap (λ ns. ns ++ numbers_of l (map parts_of bs)) (none_numbered l b.signals) ∙ no_numbers l bs

parts_same : (image : Image) (bs : List BlockImage) → map (λ (x : Block). x.control.parts) (map (block_started image.cores) bs) ≡ map parts_of bs
unfolding control_start
parts_same image [] = refl
parts_same image (b ∷ bs) = ap (λ ps. parts_of b ∷ ps) (parts_same image bs)

no_latches : (image : Image) (l : ℕ) → latches_of l (map (block_started image.cores) image.blocks) ≡ 0
no_latches image l = latches-counted l (map (block_started image.cores) image.blocks) ∙ ap (λ ps. length (numbers_of l ps)) (parts_same image image.blocks) ∙ ap (λ (ns : List ℕ). length ns) (no_numbers l image.blocks)

module _ (image : Image) (script : List ScriptLine) (valid : IsValid image) (sound : IsSound (core_start image script)) where
  pub start_opens : IsOpening (core_start image script)
  unfolding core_start
  start_opens = record {
    sound = sound;
    mailboxes = each_map (λ (c : CoreImage). empty) (λ m. m ≡ empty) (λ c. refl) image.cores;
    consoles = each_map (λ (b : BlockImage). []) (λ ws. ws ≡ []) (λ b. refl) image.blocks;
    channels = each_map (λ (c : ChanImage). record { capacity = c.capacity; untaken = []; sent = 0; taken = 0 }) IsUnsent (λ c. record { untaken = refl; sent = refl; taken = refl }) image.channels;
    lines = each_alike idle_wire image.lines;
    latches = no_latches image;
    script = record { place = refl; raises = refl; posts = refl };
  }

  blocks_same : blocks_start image ≡ blocks_opened (core_start image script)
  blocks_same = opening_alone (core_start image script) (blocks_start image) start_opens (start_stands image script)

  seen_same : seen_start image script ≡ seen_of (core_start image script) (blocks_opened (core_start image script))
  unfolding seen_start
  seen_same = agrees_is (core_start image script) (seen_start image script) (start_agrees image script valid) ∙ ap (seen_of (core_start image script)) blocks_same

  pub origins_same : image_origin image script ≡ opening_origin (core_start image script)
  unfolding core_start
  origins_same = ap (λ n. record { terms = (image_origin image script).terms; lines = script; seen = n; state = core_start image script }) seen_same
