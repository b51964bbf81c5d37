-- Lines of entries, spelled and read.
use Rattle.std.specs.Prelude.{◌≡◌, ℕ, List, [], ◌∷◌, ◌++◌, codes, map, replicate, refl, true, false, Some, None, Ok, Err}
use Prim.Native.String.{String}
use Rattle.dc_base.specs.declared.kernels.Version.TheVariants.{Rr, Edf}
use Rattle.dc_base.specs.declared.calls.Op.TheVariants as op
use Rattle.dc_base.specs.declared.calls.End.TheVariants as end
use Rattle.dc_base.specs.declared.interrupts.Latched.TheVariants as how
use Rattle.dc_base.specs.declared.entries.Entry.{Entry}
use Rattle.dc_base.specs.EntryText.{entry_text, journal_text}
use Rattle.dc_base.specs.JournalText.{entry_of, journal_of}
use Rattle.dc_rows.specs.Computed.{whole_texts, read_journals}
use Rattle.dc_rows.specs.Orders as order
use Rattle.dc_rows.specs.Texts as texts

-- a line, and the ticket and the entry that it tells
record Row : Type 0 where
  line : String
  ticket : ℕ
  entry : Entry

abbrev row : String → ℕ → Entry → Row
row line ticket entry = record { line = line; ticket = ticket; entry = entry }

abbrev rows : List Row
rows =
    row "12 core 0 slice 3 - fired 2 ran 0 none clock 77" 12 (texts.slice_none 0 3 2 77)
    ∷ row "3 core 7 wake 15 9" 3 (texts.woken 7 15 9)
    ∷ row "10 core 1 intake 0 1 0 0 latched" 10 (texts.taken_in 1 0 1 0 0 how.Latched)
    ∷ row "10 core 1 intake 2 4294967295 0 0 coalesced" 10 (texts.taken_in 1 2 4294967295 0 0 how.Coalesced)
    ∷ row "1 core 1 start rr clock 0" 1 (texts.start 1 Rr 0)
    ∷ row "11 core 0 stop 3" 11 (texts.stop 0 3)
    ∷ row "3 core 0 replace edf" 3 (texts.replace 0 Edf)
    ∷ row "3 core 1 adopt 0 parked time 0" 3 (texts.adopt 1 0 true 0)
    ∷ row "0 script 0 refused 5 HomeTaken 1 1" 0 (texts.refused 0 (order.home_taken 1 1))
    ∷ row "0 script 0 refused 3 SameVersion 0 rr" 0 (texts.refused 0 (order.same_version 0 Rr))
    ∷ row "67 script 17 refused 9 ShareFull 0" 67 (texts.refused 17 (order.share_full 0))
    ∷ row "8 script 2 refused 8 OnThatCore 0 1" 8 (texts.refused 2 (order.on_that_core 0 1))
    ∷ row "9 script 3 refused 1 AlreadyOn 1" 9 (texts.refused 3 (order.already_on 1))
    ∷ row "9 script 3 refused 4 NotAtRest 1 2" 9 (texts.refused 3 (order.not_at_rest 1 2))
    ∷ row "9 script 3 refused 2 Off 1" 9 (texts.refused 3 (order.off 1))
    ∷ row "5 script 1 refused 6 NotHome 0" 5 (texts.refused 1 (order.not_home 0))
    ∷ row "5 script 1 refused 7 NotParked 0" 5 (texts.refused 1 (order.not_parked 0))
    ∷ row "4 script 1 raise 0 1 pending" 4 (texts.raised 1 0 (order.pending 1))
    ∷ row "5 script 2 raise 0 2 coalesced" 5 (texts.raised 2 0 (order.coalesced 2))
    ∷ row "0 script 0 raise 0 1 stray" 0 (texts.raised 0 0 (order.stray 1))
    ∷ row "9 script 3 route 0 1" 9 (texts.routed 3 0 1)
    ∷ row "2 script 0 met 0 1" 2 (texts.met 0 0 1)
    ∷ row "3 script 1 unmet 0 1" 3 (texts.unmet 1 0 1)
    ∷ row "0 script 0 post 1 start rr" 0 (texts.post 0 1 (order.start Rr))
    ∷ row "0 script 0 post 1 stop" 0 (texts.post 0 1 order.stop)
    ∷ row "0 script 0 post 1 replace edf" 0 (texts.post 0 1 (order.replace Edf))
    ∷ row "18446744073709551615 core 0 slice 0 0 fired 0 ran 1 trap 12 clock 18446744073709551615"
    18446744073709551615 (texts.slice 0 0 0 0 1 (end.Trap 12) 18446744073709551615)
    ∷ row "0 core 0 slice 0 0 fired 0 ran 4 quantum clock 4" 0 (texts.slice 0 0 0 0 4 end.Quantum 4)
    ∷ []

are_spelled : map (λ (r : Row). entry_text r.ticket r.entry) rows ≡ map (λ (r : Row). codes r.line) rows
unfolding whole_texts
are_spelled = refl

are_read : map (λ (r : Row). entry_of r.ticket (codes r.line)) rows ≡ map (λ (r : Row). Some r.entry) rows
unfolding read_journals
are_read = refl

-- lines that tell nothing as the first line of a journal
abbrev no_lines : List String
no_lines =
    "0 core 0 idle clock 01"
    ∷ "00 core 0 idle clock 1"
    ∷ "0 core 0 idle  clock 1"
    ∷ "0 core 0 idle clock 1 "
    ∷ "1 core 0 idle clock 1"
    ∷ "0 core 0 idle clock 18446744073709551616"
    ∷ "0 core 4294967296 idle clock 1"
    ∷ "0 core 0 done"
    ∷ "0 script 0 refused 1 Off 1"
    ∷ "0 core 0 slice 0 0 fired 0 ran 1 none clock 1"
    ∷ "0 core 0 slice 0 - fired 0 ran 1 none clock 1"
    ∷ "0 core 0 slice 0 0 fired 0 ran 1 trap 256 clock 1"
    ∷ ""
    ∷ " 0 core 0 idle clock 1"
    ∷ "0 core 0 idle tick 1"
    ∷ []

are_no_entries : map (λ (l : String). entry_of 0 (codes l)) no_lines ≡ replicate 15 None
unfolding read_journals
are_no_entries = refl

-- the journal of a block that is moved
abbrev moved_entries : List Entry
moved_entries =
    texts.slice 0 0 0 0 1 (end.Call op.Arm) 1000002
    ∷ texts.post 0 0 (order.release 0)
    ∷ texts.release 0 0 2
    ∷ texts.post 0 1 (order.adopt 0 false)
    ∷ texts.adopt 1 0 false 2
    ∷ texts.done 0
    ∷ texts.slice 1 0 0 0 0 (end.Hold op.Wait) 1
    ∷ texts.idle 1 8
    ∷ texts.slice 1 0 0 1 0 (end.Call op.Wait) 9
    ∷ texts.slice 1 0 0 0 1 (end.Call op.Out) 11
    ∷ texts.slice 1 0 0 0 1 end.Halt 12
    ∷ []

abbrev moved_lines : List String
moved_lines =
    "0 core 0 slice 0 0 fired 0 ran 1 call arm clock 1000002"
    ∷ "1 script 0 post 0 release 0"
    ∷ "2 core 0 release 0 time 2"
    ∷ "3 script 0 post 1 adopt 0 home"
    ∷ "4 core 1 adopt 0 home time 2"
    ∷ "5 script 0 done"
    ∷ "6 core 1 slice 0 0 fired 0 ran 0 hold wait clock 1"
    ∷ "7 core 1 idle clock 8"
    ∷ "8 core 1 slice 0 0 fired 1 ran 0 call wait clock 9"
    ∷ "9 core 1 slice 0 0 fired 0 ran 1 call out clock 11"
    ∷ "10 core 1 slice 0 0 fired 0 ran 1 halt clock 12"
    ∷ []

moved_is_spelled : journal_text moved_entries ≡ texts.lines moved_lines
unfolding whole_texts
moved_is_spelled = refl

-- what follows the line `report` is not read
moved_is_read : journal_of (texts.lines moved_lines ++ texts.lines ("report" ∷ []) ++ codes "core 0") ≡ Ok moved_entries
unfolding read_journals
moved_is_read = refl

-- the last line has no newline
cut_is_not_read : journal_of (texts.lines ("0 core 0 idle clock 1" ∷ []) ++ codes "1 core 0 idle clock 2") ≡ Err 2
unfolding read_journals
cut_is_not_read = refl

nothing_is_read : journal_of [] ≡ Ok []
unfolding read_journals
nothing_is_read = refl
