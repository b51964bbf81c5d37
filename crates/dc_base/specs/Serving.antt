-- What the kernel makes of a call, with the object outside its block that the call needs.
use Rattle.std.specs.Prelude.{ℕ, nat_lt, List, [], ◌∷◌, ◌++◌, Option, Some, None, if◌then◌else◌, length}
use Rattle.dc_base.specs.declared.calls.Need.{Need}
use Rattle.dc_base.specs.declared.calls.Need.TheVariants as needs
use Rattle.dc_base.specs.declared.dispatchers.Wait.{Wait}
use Rattle.dc_base.specs.declared.dispatchers.Wait.TheVariants as wait
use Rattle.dc_base.specs.declared.messages.Message.{Message}
use Rattle.dc_base.specs.Limits.{console_room}
use Rattle.dc_base.specs.Traps.{console_full, not_offered}
use Rattle.dc_base.specs.Channels.{Ring, ring_after_send, ring_after_take}
use Rattle.dc_base.specs.Lines.{Wire, rights_over}
use Rattle.dc_base.specs.Parts.{Parts, with_message}
use Rattle.dc_base.specs.Kernel.{Call, faults, waits, makes, takes, prints, sends, receives, binds, gives, claims, with_claimed}

-- the object outside its block that a call needs
unfoldable pub need : Call → Need
need (prints w p) = needs.Console
need (sends x m p) = needs.Channel (record { 0 = x })
need (receives x address p) = needs.Channel (record { 0 = x })
need (binds l signal p) = needs.Line (record { 0 = l })
need (gives l x rights p) = needs.Line (record { 0 = l })
need (claims l x slot p) = needs.Line (record { 0 = l })
need c = needs.Nothing

-- such an object; nothing where none is needed, or where there is no such object
pub data Outside : Type 0 where
  nothing_outside : Outside
  console_outside : List ℕ → Outside
  channel_outside : Ring → Outside
  line_outside : Wire → Outside

-- what a kernel call comes to; a call that is made leaves the object outside so
pub data Served : Type 0 where
  faulted : ℕ → Served
  held_up : Wait → Served
  served : Option Wait → Parts → Outside → Served

abbrev pub serve_send : ℕ → Parts → Option Ring → Served
serve_send x p None = held_up (wait.Csend (record { 0 = x }))
serve_send x p (Some new) = served None p (channel_outside new)

abbrev pub serve_receive : ℕ → ℕ → Parts → Option (Message × Ring) → Served
serve_receive x address p None = held_up (wait.Crecv (record { 0 = x }))
serve_receive x address p (Some got) = served None (with_message address got.0 p) (channel_outside got.1)

abbrev pub serve_claim : ℕ → ℕ → Parts → Wire → Option ℕ → Served
serve_claim l slot p w None = faulted not_offered
serve_claim l slot p w (Some rights) = served None (with_claimed l slot rights p) (line_outside (record w { offer = None }))

-- what a kernel call of block b on core c comes to with the object that it needs
unfoldable pub serve : ℕ → ℕ → Call → Outside → Served
serve c b (faults x) out = faulted x
serve c b (waits w) out = held_up w
serve c b (makes w p) out = served w p out
serve c b (takes l p) out = served None p out
serve c b (prints w p) (console_outside ws) = if nat_lt (length ws) console_room then served None p (console_outside (ws ++ w ∷ [])) else faulted console_full
serve c b (prints w p) out = faulted console_full
serve c b (sends x m p) (channel_outside r) = serve_send x p (ring_after_send r m)
serve c b (sends x m p) out = held_up (wait.Csend (record { 0 = x }))
serve c b (receives x address p) (channel_outside r) = serve_receive x address p (ring_after_take r)
serve c b (receives x address p) out = held_up (wait.Crecv (record { 0 = x }))
serve c b (binds l signal p) (line_outside w) = served None p (line_outside (record w { bound = Some (b, signal); route = Some c }))
serve c b (binds l signal p) out = faulted not_offered
serve c b (gives l x rights p) (line_outside w) = served None p (line_outside (record w { bound = None; offer = Some (x, rights) }))
serve c b (gives l x rights p) out = faulted not_offered
serve c b (claims l x slot p) (line_outside w) = serve_claim l slot p w (rights_over x w.offer)
serve c b (claims l x slot p) out = faulted not_offered
