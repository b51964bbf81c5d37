-- One more block, which is in the share if its home is the core.
use Rattle.std.proofs.Common.{◌≡◌, true, false, get_or}
use Rattle.dc_objects.specs.Starts.{is_home_of}
use Rattle.dc_objects.proofs.StartMembers.{one_member_more, no_member_more}
use Rattle.dc_objects.proofs.starts.share_of.Goals.{then-is_home, else-is_home}
use Rattle.dc_objects.proofs.starts.share_of.Goals as goal

pub loop-at-preserved : goal.loop-at-preserved
loop-at-preserved c = elim c.if-is_home.branch [
  | then-is_home w ↦
      let here : is_home_of c.args.c.0 (get_or c.args.blocks.now c.loop-at.at c.index-blocks-at.result) ≡ true = cc (c.is_home.ensures, c.index-blocks-at.is, w.if-is_home.true) in
      let more = one_member_more c.args.c c.args.blocks.now c.loop-at.at c.loop-at.share c.index-blocks-at.result c.requires.homes c.loop-at-test.true here c.loop-at.invariant in
      rw w.share-is (rw w.add.ensures more)
  | else-is_home w ↦
      let here : is_home_of c.args.c.0 (get_or c.args.blocks.now c.loop-at.at c.index-blocks-at.result) ≡ false = cc (c.is_home.ensures, c.index-blocks-at.is, w.if-is_home.false) in
      rw w.share-is (no_member_more c.args.c c.args.blocks.now c.loop-at.at c.loop-at.share c.index-blocks-at.result c.loop-at-test.true here c.loop-at.invariant)
]
