-- The numbers of objects, as sums.
use Rattle.std.proofs.Common.{◌≡◌, ℕ, ◌+◌, ◌<◌, ◌∙◌, refl, arith}
use Rattle.dc_base.specs.Changes.{Name, a_core, a_block, a_channel, a_line, a_mailbox, a_console, the_script}
use Rattle.dc_base.specs.Objects.{object_number}
use Rattle.dc_touch.specs.Within.{Within}
use Rattle.dc_scene.proofs.Numbering.{objects_count}
use Rattle.dc_hands.specs.Machines.{Staged, IsOpened, number_of}

module _ {D : Type 0} (st : Staged D) where
  -- there are as many objects as the settings say
  all_counted : IsOpened st → st.objects ≡
      st.scene.settings.cores + st.scene.settings.blocks + st.scene.settings.channels + st.scene.settings.lines + st.scene.settings.cores
      + st.scene.settings.blocks + 1
  all_counted opened = opened.objects ∙ objects_count st.scene.settings st.scene.start opened.sizes

  -- the number of an object of the machine is that of one of the stage
  pub number_there : IsOpened st → (n : Name) → Within st.scene.settings n → number_of st n < st.objects
  unfolding object_number
  number_there opened (a_core c) w = let e = all_counted opened in omega (arith, e, w)
  number_there opened (a_block b) w = let e = all_counted opened in omega (arith, e, w)
  number_there opened (a_channel x) w = let e = all_counted opened in omega (arith, e, w)
  number_there opened (a_line l) w = let e = all_counted opened in omega (arith, e, w)
  number_there opened (a_mailbox c) w = let e = all_counted opened in omega (arith, e, w)
  number_there opened (a_console b) w = let e = all_counted opened in omega (arith, e, w)
  number_there opened the_script w = let e = all_counted opened in omega (arith, e)

  pub core_number : (c : ℕ) → c ≡ number_of st (a_core c)
  unfolding object_number
  core_number c = refl

  pub block_number : (cores : ℕ) (b : ℕ) → cores ≡ st.scene.settings.cores → cores + b ≡ number_of st (a_block b)
  unfolding object_number
  block_number cores b p = omega (arith, p)

  pub channel_number : (cores blocks : ℕ) (x : ℕ) → cores ≡ st.scene.settings.cores → blocks ≡ st.scene.settings.blocks → cores + blocks + x ≡ number_of st (a_channel x)
  unfolding object_number
  channel_number cores blocks x p q = omega (arith, p, q)

  pub line_number : (cores blocks channels : ℕ) (l : ℕ) → cores ≡ st.scene.settings.cores → blocks ≡ st.scene.settings.blocks → channels ≡ st.scene.settings.channels → cores + blocks + channels + l ≡ number_of st (a_line l)
  unfolding object_number
  line_number cores blocks channels l p q r = omega (arith, p, q, r)

  pub mailbox_number : (cores blocks channels lines : ℕ) (c : ℕ) → cores ≡ st.scene.settings.cores → blocks ≡ st.scene.settings.blocks → channels ≡ st.scene.settings.channels → lines ≡ st.scene.settings.lines → cores + blocks + channels + lines + c ≡ number_of st (a_mailbox c)
  unfolding object_number
  mailbox_number cores blocks channels lines c p q r s = omega (arith, p, q, r, s)

  pub console_number : (cores blocks channels lines again : ℕ) (b : ℕ) → cores ≡ st.scene.settings.cores → blocks ≡ st.scene.settings.blocks → channels ≡ st.scene.settings.channels → lines ≡ st.scene.settings.lines → again ≡ st.scene.settings.cores → cores + blocks + channels + lines + again + b ≡ number_of st (a_console b)
  unfolding object_number
  console_number cores blocks channels lines again b p q r s u = omega (arith, p, q, r, s, u)

  pub script_number : (cores blocks channels lines again more : ℕ) → cores ≡ st.scene.settings.cores → blocks ≡ st.scene.settings.blocks → channels ≡ st.scene.settings.channels → lines ≡ st.scene.settings.lines → again ≡ st.scene.settings.cores → more ≡ st.scene.settings.blocks → cores + blocks + channels + lines + again + more ≡ number_of st the_script
  unfolding object_number
  script_number cores blocks channels lines again more p q r s u v = omega (arith, p, q, r, s, u, v)
