-- Images, read.
use Rattle.std.specs.Prelude.{◌≡◌, ℕ, List, [], ◌++◌, Result, Ok, Err, codes, refl}
use Rattle.std.specs.Fmt.{digits}
use Rattle.std.specs.Str.{is_utf8, chars}
use Rattle.std.specs.Char.{encode_utf8}
use Rattle.toml.proofs.OnLiterals.{toml_on_literals}
use Rattle.dc_base.specs.declared.images.Image.{Image}
use Rattle.dc_base.specs.TextWords.{ended, number_of}
use Rattle.dc_base.specs.ProgramText.{program_of, word_of}
use Rattle.dc_base.specs.Operations.{operations}
use Rattle.dc_base.specs.FaultText.{ImageRefusal, image_fault_line}
use Rattle.dc_image.specs.ImageOf.{image_of, image_in, core_in, cores_in, slices_in, channel_in, channels_in}
use Rattle.dc_image.specs.BlocksOf.{block_in, blocks_in}
use Rattle.dc_image.specs.DispsOf.{caps_in, disp_in, disps_in}
use Rattle.dc_image.specs.CapsOf.{cap_in}

-- nothing for an image, and else the fault's line
abbrev told : Result Image ImageRefusal → List ℕ
told (Ok image) = []
told (Err refusal) = image_fault_line refusal

first : told (image_of (ended (codes "format = 1") ++ ended (codes "quantum = 4") ++ ended (codes "slices = 100") ++ ended (codes "[[core]]") ++ ended (codes "version = 'rr'") ++ ended (codes "[[block]]") ++ ended (codes "home = 0") ++ ended (codes "[[block.disp]]") ++ ended (codes "code = [16777223, 536870912, 335544320]"))) ≡ []
unfolding image_of image_in core_in cores_in slices_in channel_in channels_in block_in blocks_in disp_in disps_in caps_in cap_in toml_on_literals program_of word_of operations number_of digits image_fault_line is_utf8 chars encode_utf8
first = refl

empty : told (image_of ([])) ≡ codes "image: missing format"
unfolding image_of image_in core_in cores_in slices_in channel_in channels_in block_in blocks_in disp_in disps_in caps_in cap_in toml_on_literals program_of word_of operations number_of digits image_fault_line is_utf8 chars encode_utf8
empty = refl

no_quantum : told (image_of (ended (codes "format = 1") ++ ended (codes "slices = 100") ++ ended (codes "[[core]]") ++ ended (codes "version = 'rr'") ++ ended (codes "[[block]]") ++ ended (codes "home = 0") ++ ended (codes "[[block.disp]]") ++ ended (codes "code = [16777223, 536870912, 335544320]"))) ≡ codes "image: missing quantum"
unfolding image_of image_in core_in cores_in slices_in channel_in channels_in block_in blocks_in disp_in disps_in caps_in cap_in toml_on_literals program_of word_of operations number_of digits image_fault_line is_utf8 chars encode_utf8
no_quantum = refl

bad_code : told (image_of (ended (codes "format = 1") ++ ended (codes "quantum = 4") ++ ended (codes "slices = 100") ++ ended (codes "[[core]]") ++ ended (codes "version = 'rr'") ++ ended (codes "[[block]]") ++ ended (codes "home = 0") ++ ended (codes "[[block.disp]]") ++ ended (codes "code = 'li r9 1'"))) ≡ codes "image: code block.0.disp.0.code line 1: bad operand"
unfolding image_of image_in core_in cores_in slices_in channel_in channels_in block_in blocks_in disp_in disps_in caps_in cap_in toml_on_literals program_of word_of operations number_of digits image_fault_line is_utf8 chars encode_utf8
bad_code = refl

quantum_65 : told (image_of (ended (codes "format = 1") ++ ended (codes "quantum = 65") ++ ended (codes "slices = 100") ++ ended (codes "[[core]]") ++ ended (codes "version = 'rr'") ++ ended (codes "[[block]]") ++ ended (codes "home = 0") ++ ended (codes "[[block.disp]]") ++ ended (codes "code = [16777223, 536870912, 335544320]"))) ≡ codes "image: out of range quantum"
unfolding image_of image_in core_in cores_in slices_in channel_in channels_in block_in blocks_in disp_in disps_in caps_in cap_in toml_on_literals program_of word_of operations number_of digits image_fault_line is_utf8 chars encode_utf8
quantum_65 = refl

core_1 : told (image_of (ended (codes "format = 1") ++ ended (codes "quantum = 4") ++ ended (codes "core = 1") ++ ended (codes "slices = 100"))) ≡ codes "image: wrong kind core"
unfolding image_of image_in core_in cores_in slices_in channel_in channels_in block_in blocks_in disp_in disps_in caps_in cap_in toml_on_literals program_of word_of operations number_of digits image_fault_line is_utf8 chars encode_utf8
core_1 = refl

nine_cores : told (image_of (ended (codes "format = 1") ++ ended (codes "quantum = 4") ++ ended (codes "slices = 100") ++ ended (codes "[[core]]") ++ ended (codes "version = 'rr'") ++ ended (codes "[[core]]") ++ ended (codes "version = 'rr'") ++ ended (codes "[[core]]") ++ ended (codes "version = 'rr'") ++ ended (codes "[[core]]") ++ ended (codes "version = 'rr'") ++ ended (codes "[[core]]") ++ ended (codes "version = 'rr'") ++ ended (codes "[[core]]") ++ ended (codes "version = 'rr'") ++ ended (codes "[[core]]") ++ ended (codes "version = 'rr'") ++ ended (codes "[[core]]") ++ ended (codes "version = 'rr'") ++ ended (codes "[[core]]") ++ ended (codes "version = 'rr'") ++ ended (codes "[[block]]") ++ ended (codes "home = 0") ++ ended (codes "[[block.disp]]") ++ ended (codes "code = [16777223, 536870912, 335544320]"))) ≡ codes "image: out of range core"
unfolding image_of image_in core_in cores_in slices_in channel_in channels_in block_in blocks_in disp_in disps_in caps_in cap_in toml_on_literals program_of word_of operations number_of digits image_fault_line is_utf8 chars encode_utf8
nine_cores = refl

many_slices : told (image_of (ended (codes "format = 1") ++ ended (codes "quantum = 4") ++ ended (codes "slices = 30209") ++ ended (codes "[[core]]") ++ ended (codes "version = 'rr'") ++ ended (codes "[[core]]") ++ ended (codes "version = 'rr'") ++ ended (codes "[[core]]") ++ ended (codes "version = 'rr'") ++ ended (codes "[[core]]") ++ ended (codes "version = 'rr'") ++ ended (codes "[[core]]") ++ ended (codes "version = 'rr'") ++ ended (codes "[[core]]") ++ ended (codes "version = 'rr'") ++ ended (codes "[[core]]") ++ ended (codes "version = 'rr'") ++ ended (codes "[[core]]") ++ ended (codes "version = 'rr'") ++ ended (codes "[[block]]") ++ ended (codes "home = 0") ++ ended (codes "[[block.disp]]") ++ ended (codes "code = [16777223, 536870912, 335544320]"))) ≡ codes "image: out of range slices"
unfolding image_of image_in core_in cores_in slices_in channel_in channels_in block_in blocks_in disp_in disps_in caps_in cap_in toml_on_literals program_of word_of operations number_of digits image_fault_line is_utf8 chars encode_utf8
many_slices = refl

most_slices : told (image_of (ended (codes "format = 1") ++ ended (codes "quantum = 4") ++ ended (codes "slices = 30208") ++ ended (codes "[[core]]") ++ ended (codes "version = 'rr'") ++ ended (codes "[[core]]") ++ ended (codes "version = 'rr'") ++ ended (codes "[[core]]") ++ ended (codes "version = 'rr'") ++ ended (codes "[[core]]") ++ ended (codes "version = 'rr'") ++ ended (codes "[[core]]") ++ ended (codes "version = 'rr'") ++ ended (codes "[[core]]") ++ ended (codes "version = 'rr'") ++ ended (codes "[[core]]") ++ ended (codes "version = 'rr'") ++ ended (codes "[[core]]") ++ ended (codes "version = 'rr'") ++ ended (codes "[[block]]") ++ ended (codes "home = 0") ++ ended (codes "[[block.disp]]") ++ ended (codes "code = [16777223, 536870912, 335544320]"))) ≡ []
unfolding image_of image_in core_in cores_in slices_in channel_in channels_in block_in blocks_in disp_in disps_in caps_in cap_in toml_on_literals program_of word_of operations number_of digits image_fault_line is_utf8 chars encode_utf8
most_slices = refl

two_homes : told (image_of (ended (codes "format = 1") ++ ended (codes "quantum = 4") ++ ended (codes "slices = 100") ++ ended (codes "[[core]]") ++ ended (codes "version = 'rr'") ++ ended (codes "[[block]]") ++ ended (codes "home = 0") ++ ended (codes "[[block.disp]]") ++ ended (codes "code = [16777223, 536870912, 335544320]") ++ ended (codes "[[block]]") ++ ended (codes "home = 0") ++ ended (codes "[[block.disp]]") ++ ended (codes "code = [16777223, 536870912, 335544320]"))) ≡ codes "image: out of range block.1.home"
unfolding image_of image_in core_in cores_in slices_in channel_in channels_in block_in blocks_in disp_in disps_in caps_in cap_in toml_on_literals program_of word_of operations number_of digits image_fault_line is_utf8 chars encode_utf8
two_homes = refl

to_itself : told (image_of (ended (codes "format = 1") ++ ended (codes "quantum = 4") ++ ended (codes "slices = 100") ++ ended (codes "[[core]]") ++ ended (codes "version = 'rr'") ++ ended (codes "[[block]]") ++ ended (codes "home = 0") ++ ended (codes "[[block.disp]]") ++ ended (codes "code = [16777223, 536870912, 335544320]") ++ ended (codes "[[block]]") ++ ended (codes "[[block.disp]]") ++ ended (codes "code = [16777223, 536870912, 335544320]") ++ ended (codes "[[channel]]") ++ ended (codes "from = 0") ++ ended (codes "to = 0") ++ ended (codes "capacity = 1"))) ≡ codes "image: out of range channel.0.to"
unfolding image_of image_in core_in cores_in slices_in channel_in channels_in block_in blocks_in disp_in disps_in caps_in cap_in toml_on_literals program_of word_of operations number_of digits image_fault_line is_utf8 chars encode_utf8
to_itself = refl

one_slot : told (image_of (ended (codes "format = 1") ++ ended (codes "quantum = 4") ++ ended (codes "slices = 100") ++ ended (codes "[[core]]") ++ ended (codes "version = 'rr'") ++ ended (codes "[[block]]") ++ ended (codes "home = 0") ++ ended (codes "[[block.disp]]") ++ ended (codes "code = [16777223, 536870912, 335544320]") ++ ended (codes "[[block.disp.cap]]") ++ ended (codes "slot = 0") ++ ended (codes "kind = 'ram'") ++ ended (codes "first = 0") ++ ended (codes "length = 4") ++ ended (codes "[[block.disp.cap]]") ++ ended (codes "slot = 0") ++ ended (codes "kind = 'ram'") ++ ended (codes "first = 0") ++ ended (codes "length = 4"))) ≡ codes "image: out of range block.0.disp.0.cap.1.slot"
unfolding image_of image_in core_in cores_in slices_in channel_in channels_in block_in blocks_in disp_in disps_in caps_in cap_in toml_on_literals program_of word_of operations number_of digits image_fault_line is_utf8 chars encode_utf8
one_slot = refl

one_line : told (image_of (ended (codes "format = 1") ++ ended (codes "quantum = 4") ++ ended (codes "slices = 100") ++ ended (codes "lines = 1") ++ ended (codes "[[core]]") ++ ended (codes "version = 'rr'") ++ ended (codes "[[block]]") ++ ended (codes "home = 0") ++ ended (codes "[[block.disp]]") ++ ended (codes "code = [16777223, 536870912, 335544320]") ++ ended (codes "[[block.disp.cap]]") ++ ended (codes "slot = 0") ++ ended (codes "kind = 'line'") ++ ended (codes "number = 0") ++ ended (codes "[[block]]") ++ ended (codes "[[block.disp]]") ++ ended (codes "code = [16777223, 536870912, 335544320]") ++ ended (codes "[[block.disp.cap]]") ++ ended (codes "slot = 0") ++ ended (codes "kind = 'line'") ++ ended (codes "number = 0"))) ≡ codes "image: out of range block.1.disp.0.cap.0.number"
unfolding image_of image_in core_in cores_in slices_in channel_in channels_in block_in blocks_in disp_in disps_in caps_in cap_in toml_on_literals program_of word_of operations number_of digits image_fault_line is_utf8 chars encode_utf8
one_line = refl

no_code : told (image_of (ended (codes "format = 1") ++ ended (codes "quantum = 4") ++ ended (codes "slices = 100") ++ ended (codes "[[core]]") ++ ended (codes "version = 'rr'") ++ ended (codes "[[block]]") ++ ended (codes "home = 0") ++ ended (codes "[[block.disp]]") ++ ended (codes "code = ''"))) ≡ codes "image: out of range block.0.disp.0.code"
unfolding image_of image_in core_in cores_in slices_in channel_in channels_in block_in blocks_in disp_in disps_in caps_in cap_in toml_on_literals program_of word_of operations number_of digits image_fault_line is_utf8 chars encode_utf8
no_code = refl

no_label : told (image_of (ended (codes "format = 1") ++ ended (codes "quantum = 4") ++ ended (codes "slices = 100") ++ ended (codes "[[core]]") ++ ended (codes "version = 'rr'") ++ ended (codes "[[block]]") ++ ended (codes "home = 0") ++ ended (codes "[[block.disp]]") ++ ended (codes "code = 'jmp @x'"))) ≡ codes "image: code block.0.disp.0.code line 1: no label"
unfolding image_of image_in core_in cores_in slices_in channel_in channels_in block_in blocks_in disp_in disps_in caps_in cap_in toml_on_literals program_of word_of operations number_of digits image_fault_line is_utf8 chars encode_utf8
no_label = refl

cut : told (image_of (ended (codes "format = 1") ++ ended (codes "quantum = 4") ++ ended (codes "slices = 100") ++ ended (codes "[[core]]") ++ ended (codes "version = 'rr'") ++ ended (codes "[[block]]") ++ ended (codes "home = 0") ++ ended (codes "[[block.disp]]") ++ ended (codes "code = [16777223, 536870912, 335544320]") ++ ended (codes "[["))) ≡ codes "image: not TOML"
unfolding image_of image_in core_in cores_in slices_in channel_in channels_in block_in blocks_in disp_in disps_in caps_in cap_in toml_on_literals program_of word_of operations number_of digits image_fault_line is_utf8 chars encode_utf8
cut = refl

no_format : told (image_of (ended (codes "quantum = 4") ++ ended (codes "slices = 100") ++ ended (codes "[[core]]") ++ ended (codes "version = 'rr'") ++ ended (codes "[[block]]") ++ ended (codes "home = 0") ++ ended (codes "[[block.disp]]") ++ ended (codes "code = [16777223, 536870912, 335544320]"))) ≡ codes "image: missing format"
unfolding image_of image_in core_in cores_in slices_in channel_in channels_in block_in blocks_in disp_in disps_in caps_in cap_in toml_on_literals program_of word_of operations number_of digits image_fault_line is_utf8 chars encode_utf8
no_format = refl

format_3 : told (image_of (ended (codes "format = 3") ++ ended (codes "quantum = 4") ++ ended (codes "slices = 100") ++ ended (codes "[[core]]") ++ ended (codes "version = 'rr'") ++ ended (codes "[[block]]") ++ ended (codes "home = 0") ++ ended (codes "[[block.disp]]") ++ ended (codes "code = [16777223, 536870912, 335544320]"))) ≡ codes "image: out of range format"
unfolding image_of image_in core_in cores_in slices_in channel_in channels_in block_in blocks_in disp_in disps_in caps_in cap_in toml_on_literals program_of word_of operations number_of digits image_fault_line is_utf8 chars encode_utf8
format_3 = refl

clocks_1 : told (image_of (ended (codes "format = 1") ++ ended (codes "quantum = 4") ++ ended (codes "slices = 100") ++ ended (codes "clocks = 3") ++ ended (codes "[[core]]") ++ ended (codes "version = 'rr'") ++ ended (codes "[[block]]") ++ ended (codes "home = 0") ++ ended (codes "[[block.disp]]") ++ ended (codes "code = [16777223, 536870912, 335544320]"))) ≡ []
unfolding image_of image_in core_in cores_in slices_in channel_in channels_in block_in blocks_in disp_in disps_in caps_in cap_in toml_on_literals program_of word_of operations number_of digits image_fault_line is_utf8 chars encode_utf8
clocks_1 = refl

clocks_2 : told (image_of (ended (codes "format = 2") ++ ended (codes "quantum = 4") ++ ended (codes "slices = 100") ++ ended (codes "clocks = 3") ++ ended (codes "[[core]]") ++ ended (codes "version = 'rr'") ++ ended (codes "[[block]]") ++ ended (codes "home = 0") ++ ended (codes "[[block.disp]]") ++ ended (codes "code = [16777223, 536870912, 335544320]"))) ≡ codes "image: wrong kind clocks"
unfolding image_of image_in core_in cores_in slices_in channel_in channels_in block_in blocks_in disp_in disps_in caps_in cap_in toml_on_literals program_of word_of operations number_of digits image_fault_line is_utf8 chars encode_utf8
clocks_2 = refl

clocks_word : told (image_of (ended (codes "format = 2") ++ ended (codes "quantum = 4") ++ ended (codes "slices = 100") ++ ended (codes "clocks = 'slow'") ++ ended (codes "[[core]]") ++ ended (codes "version = 'rr'") ++ ended (codes "[[block]]") ++ ended (codes "home = 0") ++ ended (codes "[[block.disp]]") ++ ended (codes "code = [16777223, 536870912, 335544320]"))) ≡ codes "image: out of range clocks"
unfolding image_of image_in core_in cores_in slices_in channel_in channels_in block_in blocks_in disp_in disps_in caps_in cap_in toml_on_literals program_of word_of operations number_of digits image_fault_line is_utf8 chars encode_utf8
clocks_word = refl

running : told (image_of (ended (codes "format = 2") ++ ended (codes "quantum = 4") ++ ended (codes "slices = 100") ++ ended (codes "clocks = 'running'") ++ ended (codes "[[core]]") ++ ended (codes "version = 'rr'") ++ ended (codes "[[block]]") ++ ended (codes "home = 0") ++ ended (codes "[[block.disp]]") ++ ended (codes "code = [16777223, 536870912, 335544320]"))) ≡ []
unfolding image_of image_in core_in cores_in slices_in channel_in channels_in block_in blocks_in disp_in disps_in caps_in cap_in toml_on_literals program_of word_of operations number_of digits image_fault_line is_utf8 chars encode_utf8
running = refl

version_x : told (image_of (ended (codes "format = 1") ++ ended (codes "quantum = 4") ++ ended (codes "slices = 100") ++ ended (codes "[[core]]") ++ ended (codes "version = 'x'") ++ ended (codes "[[block]]") ++ ended (codes "home = 0") ++ ended (codes "[[block.disp]]") ++ ended (codes "code = [16777223, 536870912, 335544320]"))) ≡ codes "image: out of range core.0.version"
unfolding image_of image_in core_in cores_in slices_in channel_in channels_in block_in blocks_in disp_in disps_in caps_in cap_in toml_on_literals program_of word_of operations number_of digits image_fault_line is_utf8 chars encode_utf8
version_x = refl

base_low : told (image_of (ended (codes "format = 1") ++ ended (codes "quantum = 4") ++ ended (codes "slices = 100") ++ ended (codes "[[core]]") ++ ended (codes "base = -1") ++ ended (codes "[[block]]") ++ ended (codes "home = 0") ++ ended (codes "[[block.disp]]") ++ ended (codes "code = [16777223, 536870912, 335544320]"))) ≡ codes "image: out of range core.0.base"
unfolding image_of image_in core_in cores_in slices_in channel_in channels_in block_in blocks_in disp_in disps_in caps_in cap_in toml_on_literals program_of word_of operations number_of digits image_fault_line is_utf8 chars encode_utf8
base_low = refl

base_float : told (image_of (ended (codes "format = 1") ++ ended (codes "quantum = 4") ++ ended (codes "slices = 100") ++ ended (codes "[[core]]") ++ ended (codes "base = 1.0") ++ ended (codes "[[block]]") ++ ended (codes "home = 0") ++ ended (codes "[[block.disp]]") ++ ended (codes "code = [16777223, 536870912, 335544320]"))) ≡ codes "image: wrong kind core.0.base"
unfolding image_of image_in core_in cores_in slices_in channel_in channels_in block_in blocks_in disp_in disps_in caps_in cap_in toml_on_literals program_of word_of operations number_of digits image_fault_line is_utf8 chars encode_utf8
base_float = refl

off_home : told (image_of (ended (codes "format = 1") ++ ended (codes "quantum = 4") ++ ended (codes "slices = 100") ++ ended (codes "[[core]]") ++ ended (codes "[[block]]") ++ ended (codes "home = 0") ++ ended (codes "[[block.disp]]") ++ ended (codes "code = [16777223, 536870912, 335544320]"))) ≡ codes "image: out of range block.0.home"
unfolding image_of image_in core_in cores_in slices_in channel_in channels_in block_in blocks_in disp_in disps_in caps_in cap_in toml_on_literals program_of word_of operations number_of digits image_fault_line is_utf8 chars encode_utf8
off_home = refl

word_kind : told (image_of (ended (codes "format = 1") ++ ended (codes "quantum = 4") ++ ended (codes "slices = 100") ++ ended (codes "[[core]]") ++ ended (codes "version = 'rr'") ++ ended (codes "[[block]]") ++ ended (codes "home = 0") ++ ended (codes "[[block.disp]]") ++ ended (codes "code = [1, 'x']"))) ≡ codes "image: wrong kind block.0.disp.0.code.1"
unfolding image_of image_in core_in cores_in slices_in channel_in channels_in block_in blocks_in disp_in disps_in caps_in cap_in toml_on_literals program_of word_of operations number_of digits image_fault_line is_utf8 chars encode_utf8
word_kind = refl

word_big : told (image_of (ended (codes "format = 1") ++ ended (codes "quantum = 4") ++ ended (codes "slices = 100") ++ ended (codes "[[core]]") ++ ended (codes "version = 'rr'") ++ ended (codes "[[block]]") ++ ended (codes "home = 0") ++ ended (codes "[[block.disp]]") ++ ended (codes "code = [4294967296]"))) ≡ codes "image: out of range block.0.disp.0.code.0"
unfolding image_of image_in core_in cores_in slices_in channel_in channels_in block_in blocks_in disp_in disps_in caps_in cap_in toml_on_literals program_of word_of operations number_of digits image_fault_line is_utf8 chars encode_utf8
word_big = refl

no_words : told (image_of (ended (codes "format = 1") ++ ended (codes "quantum = 4") ++ ended (codes "slices = 100") ++ ended (codes "[[core]]") ++ ended (codes "version = 'rr'") ++ ended (codes "[[block]]") ++ ended (codes "home = 0") ++ ended (codes "[[block.disp]]") ++ ended (codes "code = []"))) ≡ codes "image: out of range block.0.disp.0.code"
unfolding image_of image_in core_in cores_in slices_in channel_in channels_in block_in blocks_in disp_in disps_in caps_in cap_in toml_on_literals program_of word_of operations number_of digits image_fault_line is_utf8 chars encode_utf8
no_words = refl

code_kind : told (image_of (ended (codes "format = 1") ++ ended (codes "quantum = 4") ++ ended (codes "slices = 100") ++ ended (codes "[[core]]") ++ ended (codes "version = 'rr'") ++ ended (codes "[[block]]") ++ ended (codes "home = 0") ++ ended (codes "[[block.disp]]") ++ ended (codes "code = 1"))) ≡ codes "image: wrong kind block.0.disp.0.code"
unfolding image_of image_in core_in cores_in slices_in channel_in channels_in block_in blocks_in disp_in disps_in caps_in cap_in toml_on_literals program_of word_of operations number_of digits image_fault_line is_utf8 chars encode_utf8
code_kind = refl

block_kind : told (image_of (ended (codes "format = 1") ++ ended (codes "quantum = 4") ++ ended (codes "slices = 100") ++ ended (codes "[[core]]") ++ ended (codes "version = 'rr'") ++ ended (codes "block = [1]"))) ≡ codes "image: missing block"
unfolding image_of image_in core_in cores_in slices_in channel_in channels_in block_in blocks_in disp_in disps_in caps_in cap_in toml_on_literals program_of word_of operations number_of digits image_fault_line is_utf8 chars encode_utf8
block_kind = refl

sendend : told (image_of (ended (codes "format = 1") ++ ended (codes "quantum = 4") ++ ended (codes "slices = 100") ++ ended (codes "[[core]]") ++ ended (codes "version = 'rr'") ++ ended (codes "[[block]]") ++ ended (codes "home = 0") ++ ended (codes "[[block.disp]]") ++ ended (codes "code = [16777223, 536870912, 335544320]") ++ ended (codes "[[block.disp.cap]]") ++ ended (codes "slot = 1") ++ ended (codes "kind = 'recvend'") ++ ended (codes "number = 0") ++ ended (codes "[[block]]") ++ ended (codes "[[block.disp]]") ++ ended (codes "code = [16777223, 536870912, 335544320]") ++ ended (codes "[[channel]]") ++ ended (codes "from = 0") ++ ended (codes "to = 1") ++ ended (codes "capacity = 64"))) ≡ codes "image: out of range block.0.disp.0.cap.0.number"
unfolding image_of image_in core_in cores_in slices_in channel_in channels_in block_in blocks_in disp_in disps_in caps_in cap_in toml_on_literals program_of word_of operations number_of digits image_fault_line is_utf8 chars encode_utf8
sendend = refl

rights : told (image_of (ended (codes "format = 1") ++ ended (codes "quantum = 4") ++ ended (codes "slices = 100") ++ ended (codes "[[core]]") ++ ended (codes "version = 'rr'") ++ ended (codes "[[block]]") ++ ended (codes "home = 0") ++ ended (codes "[[block.disp]]") ++ ended (codes "code = [16777223, 536870912, 335544320]") ++ ended (codes "[[block.disp.cap]]") ++ ended (codes "slot = 15") ++ ended (codes "kind = 'frame'") ++ ended (codes "first = 4095") ++ ended (codes "length = 1") ++ ended (codes "rights = 8"))) ≡ codes "image: out of range block.0.disp.0.cap.0.rights"
unfolding image_of image_in core_in cores_in slices_in channel_in channels_in block_in blocks_in disp_in disps_in caps_in cap_in toml_on_literals program_of word_of operations number_of digits image_fault_line is_utf8 chars encode_utf8
rights = refl

long : told (image_of (ended (codes "format = 1") ++ ended (codes "quantum = 4") ++ ended (codes "slices = 100") ++ ended (codes "[[core]]") ++ ended (codes "version = 'rr'") ++ ended (codes "[[block]]") ++ ended (codes "home = 0") ++ ended (codes "[[block.disp]]") ++ ended (codes "code = [16777223, 536870912, 335544320]") ++ ended (codes "[[block.disp.cap]]") ++ ended (codes "slot = 15") ++ ended (codes "kind = 'frame'") ++ ended (codes "first = 4095") ++ ended (codes "length = 2"))) ≡ codes "image: out of range block.0.disp.0.cap.0.length"
unfolding image_of image_in core_in cores_in slices_in channel_in channels_in block_in blocks_in disp_in disps_in caps_in cap_in toml_on_literals program_of word_of operations number_of digits image_fault_line is_utf8 chars encode_utf8
long = refl

kind_word : told (image_of (ended (codes "format = 1") ++ ended (codes "quantum = 4") ++ ended (codes "slices = 100") ++ ended (codes "[[core]]") ++ ended (codes "version = 'rr'") ++ ended (codes "[[block]]") ++ ended (codes "home = 0") ++ ended (codes "[[block.disp]]") ++ ended (codes "code = [16777223, 536870912, 335544320]") ++ ended (codes "[[block.disp.cap]]") ++ ended (codes "slot = 15") ++ ended (codes "kind = 'Frame'"))) ≡ codes "image: out of range block.0.disp.0.cap.0.kind"
unfolding image_of image_in core_in cores_in slices_in channel_in channels_in block_in blocks_in disp_in disps_in caps_in cap_in toml_on_literals program_of word_of operations number_of digits image_fault_line is_utf8 chars encode_utf8
kind_word = refl

data_kind : told (image_of (ended (codes "format = 1") ++ ended (codes "quantum = 4") ++ ended (codes "slices = 100") ++ ended (codes "[[core]]") ++ ended (codes "version = 'rr'") ++ ended (codes "[[block]]") ++ ended (codes "home = 0") ++ ended (codes "data = [1, 2.5]") ++ ended (codes "[[block.disp]]") ++ ended (codes "code = [16777223, 536870912, 335544320]"))) ≡ codes "image: wrong kind block.0.data.1"
unfolding image_of image_in core_in cores_in slices_in channel_in channels_in block_in blocks_in disp_in disps_in caps_in cap_in toml_on_literals program_of word_of operations number_of digits image_fault_line is_utf8 chars encode_utf8
data_kind = refl
