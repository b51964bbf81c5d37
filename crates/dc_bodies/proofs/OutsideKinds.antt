-- The object that a call needs is there, and is of the same kind afterwards.
use Rattle.std.proofs.Common.{◌≡◌, ℕ, List, Bool, true, false, Option, Some, None, refl, sym, subst, length}
use Rattle.std.specs.Prelude.{nat_lt, if◌then◌else◌, ◌++◌, ◌∷◌, [], ⊤}
use Rattle.dc_base.specs.declared.calls.Need.{Need}
use Rattle.dc_base.specs.declared.calls.Op.{Op}
use Rattle.dc_base.specs.declared.calls.Need.TheVariants as needs
use Rattle.dc_base.specs.declared.kernels.Version.{Version}
use Rattle.dc_base.specs.declared.messages.Message.{Message}
use Rattle.dc_base.specs.Channels.{Ring, ring_after_send, ring_after_take}
use Rattle.dc_base.specs.ControlBlocks.{ControlBlock}
use Rattle.dc_base.specs.Kernel.{Call, faults, waits, makes, takes, prints, sends, receives, binds, gives, claims}
use Rattle.dc_base.specs.Lines.{Wire, rights_over}
use Rattle.dc_base.specs.Parts.{Parts}
use Rattle.dc_base.specs.Serving.{need, Outside, nothing_outside, console_outside, channel_outside, line_outside, Served, faulted, held_up, served, serve, serve_send, serve_receive, serve_claim}
use Rattle.dc_base.specs.Slices.{Halfway, stopped, stands, need_of, slice_end, with_due, after_served}
use Rattle.dc_bodies.specs.OutsideKinds.{SameKind}

-- a call leaves an object of the same kind

pub same_kind : (out : Outside) → SameKind out out
same_kind nothing_outside = tt
same_kind (console_outside ws) = tt
same_kind (channel_outside r) = tt
same_kind (line_outside w) = tt

-- what a call leaves outside, where it is made
abbrev LeavesKind : Outside → Served → Type 0
LeavesKind out (faulted n) = ⊤
LeavesKind out (held_up w) = ⊤
LeavesKind out (served w p new) = SameKind out new

printed : (w : ℕ) (p : Parts) (ws : List ℕ) (t : Bool) → LeavesKind (console_outside ws) (if t then served None p (console_outside (ws ++ w ∷ [])) else faulted 11)
printed w p ws true = tt
printed w p ws false = tt

sent : (x : ℕ) (p : Parts) (r : Ring) (o : Option Ring) → LeavesKind (channel_outside r) (serve_send x p o)
sent x p r None = tt
sent x p r (Some new) = tt

taken : (x a : ℕ) (p : Parts) (r : Ring) (o : Option (Message × Ring)) → LeavesKind (channel_outside r) (serve_receive x a p o)
taken x a p r None = tt
taken x a p r (Some got) = tt

claimed : (l slot : ℕ) (p : Parts) (w : Wire) (o : Option ℕ) → LeavesKind (line_outside w) (serve_claim l slot p w o)
claimed l slot p w None = tt
claimed l slot p w (Some rights) = tt

serve_kind : (c b : ℕ) (call : Call) (out : Outside) → LeavesKind out (serve c b call out)
unfolding serve
serve_kind c b (faults n) out = tt
serve_kind c b (waits w) out = tt
serve_kind c b (makes w p) out = same_kind out
serve_kind c b (takes l p) out = same_kind out
serve_kind c b (prints w p) nothing_outside = tt
serve_kind c b (prints w p) (console_outside ws) = printed w p ws (nat_lt (length ws) 65536)
serve_kind c b (prints w p) (channel_outside r) = tt
serve_kind c b (prints w p) (line_outside l) = tt
serve_kind c b (sends x m p) nothing_outside = tt
serve_kind c b (sends x m p) (console_outside ws) = tt
serve_kind c b (sends x m p) (channel_outside r) = sent x p r (ring_after_send r m)
serve_kind c b (sends x m p) (line_outside l) = tt
serve_kind c b (receives x a p) nothing_outside = tt
serve_kind c b (receives x a p) (console_outside ws) = tt
serve_kind c b (receives x a p) (channel_outside r) = taken x a p r (ring_after_take r)
serve_kind c b (receives x a p) (line_outside l) = tt
serve_kind c b (binds l n p) nothing_outside = tt
serve_kind c b (binds l n p) (console_outside ws) = tt
serve_kind c b (binds l n p) (channel_outside r) = tt
serve_kind c b (binds l n p) (line_outside w) = tt
serve_kind c b (gives l x rights p) nothing_outside = tt
serve_kind c b (gives l x rights p) (console_outside ws) = tt
serve_kind c b (gives l x rights p) (channel_outside r) = tt
serve_kind c b (gives l x rights p) (line_outside w) = tt
serve_kind c b (claims l x slot p) nothing_outside = tt
serve_kind c b (claims l x slot p) (console_outside ws) = tt
serve_kind c b (claims l x slot p) (channel_outside r) = tt
serve_kind c b (claims l x slot p) (line_outside w) = claimed l slot p w (rights_over x w.offer)

after_kind : (v : Version) (d : ℕ) (x : ControlBlock) (ran : ℕ) (o : Op) (n : Need) (out : Outside) (a : Served) → LeavesKind out a → SameKind out (with_due v d (after_served x d ran o n out a)).outside
after_kind v d x ran o n out (faulted t) k = same_kind out
after_kind v d x ran o n out (held_up w) k = same_kind out
after_kind v d x ran o n out (served w p new) k = k

-- the end of a slice leaves an object of the same kind
pub end_kind : (c b : ℕ) (v : Version) (d : ℕ) (h : Halfway) (out : Outside) → (need_of h ≡ needs.Nothing → out ≡ nothing_outside) → SameKind out (slice_end c b v d h out).outside
unfolding slice_end
end_kind c b v d (stopped x ran e) out none = subst (λ (o : Outside). SameKind o nothing_outside) (sym (none refl)) tt
end_kind c b v d (stands x ran o call) out none = after_kind v d x ran o (need call) out (serve c b call out) (serve_kind c b call out)
