-- All sentences on a journal together: they say exactly that it is a run.
use Rattle.std.specs.Prelude.{◌≡◌, List, [], ◌∷◌, ◌++◌, Some, IsTrue, is_some}
use Rattle.dc_base.specs.declared.images.Image.{Image}
use Rattle.dc_base.specs.declared.commands.ScriptLine.{ScriptLine}
use Rattle.dc_base.specs.declared.entries.Entry.{Entry}
use Rattle.dc_base.specs.Blocks.{Blocks}
use Rattle.dc_base.specs.BlockSteps.{blocks_run}
use Rattle.dc_base.specs.StrikeOut.{Told, told_start, told_after, struck}
use Rattle.dc_base.specs.Columns.{columns_agree}
use Rattle.dc_journal_laws.specs.Clocks.{ReleasedInTime, AdoptedInTime, StartedInTime}
use Rattle.dc_journal_laws.specs.Holding.{HeldOnce, MadeByHolders, AdoptedFree, StopsEnd}
use Rattle.dc_journal_laws.specs.Booting.{MadeByCoresOn, RefusedByTable, PostedInOrder, DoneInFull}
use Rattle.dc_journal_laws.specs.Answering.{MadeByWhoMay, AnsweredByLine, NoneLeftOut, AnsweredOnce, RoutedAsSaid, MetWithEnough, UnmetWithFewer}
use Rattle.dc_journal_laws.specs.CarryingOut.{CarriedOutAsPosted, CarriedOutBefore}
use Rattle.dc_journal_laws.specs.Raising.{RaisedAsSaid, RaisedByLine, NoRaiseLeftOut, RaisedAfterCommands, AnsweredAfterRaises}

-- the journal's events are a run of the machine of blocks
abbrev pub BlocksRun : Image → List ScriptLine → List Entry → Type 0
BlocksRun image script journal = IsTrue (is_some (blocks_run image (struck image journal)))

abbrev pub told_from : Told → List Entry → Told
told_from t [] = t
told_from t (e ∷ es) = told_from (told_after t e) es

-- the columns of each entry agree with the machine of blocks before it
abbrev pub ColumnsAgree : Image → List ScriptLine → List Entry → Type 0
ColumnsAgree image script journal =
    (before after : List Entry) (e : Entry) (s : Blocks) → journal ≡ before ++ e ∷ after → blocks_run image (struck image before) ≡ Some s →
    IsTrue (columns_agree image.quantum (told_from (told_start image) before) s e)

-- each sentence holds of the journal
pub record SentencesHold (image : Image) (script : List ScriptLine) (journal : List Entry) : Type 0 where
  pub blocks : BlocksRun image script journal
  pub columns : ColumnsAgree image script journal
  pub held_once : HeldOnce image script journal
  pub holders : MadeByHolders image script journal
  pub adopted : AdoptedFree image script journal
  pub stopped : StopsEnd image script journal
  pub released_time : ReleasedInTime image script journal
  pub adopted_time : AdoptedInTime image script journal
  pub started_time : StartedInTime image script journal
  pub on : MadeByCoresOn image script journal
  pub refused : RefusedByTable image script journal
  pub posted : PostedInOrder image script journal
  pub done : DoneInFull image script journal
  pub makers : MadeByWhoMay image script journal
  pub answered : AnsweredByLine image script journal
  pub none_left_out : NoneLeftOut image script journal
  pub once : AnsweredOnce image script journal
  pub routed : RoutedAsSaid image script journal
  pub met : MetWithEnough image script journal
  pub unmet : UnmetWithFewer image script journal
  pub carried_out : CarriedOutAsPosted image script journal
  pub carried_before : CarriedOutBefore image script journal
  pub raised : RaisedAsSaid image script journal
  pub raised_by_line : RaisedByLine image script journal
  pub no_raise_left_out : NoRaiseLeftOut image script journal
  pub raised_after : RaisedAfterCommands image script journal
  pub answered_after : AnsweredAfterRaises image script journal
