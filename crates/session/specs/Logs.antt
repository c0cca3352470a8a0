-- The log that a session keeps, as a view.
use Rattle.std.specs.Prelude.{Option, Some}
use Rattle.std.specs.Prelude as std
use Rattle.beatlog.specs.Calls.{View, view}
use Rattle.keyed.specs.declared.engine.Keyed.{Keyed}
use Rattle.plain.specs.declared.block.Block as plain
use Rattle.plain.specs.declared.key_halves.KeyHalves.{KeyHalves}
use Rattle.packed.specs.declared.blocks.Blocks as packed
use Rattle.packed.specs.declared.word_row.WordRow.{WordRow}
use Rattle.words.specs.declared.pair.Pair.{Pair}
use Rattle.words.specs.declared.word.Word.{Word}
use Rattle.modes.specs.declared.standard.StandardMode.{StandardMode}
use Rattle.cipher.specs.declared.engine.Engine as engines
use Rattle.modes.specs.declared.mode.Mode as modes
use Rattle.session.specs.declared.any_log.Stage.{Stage}
use Rattle.session.specs.declared.any_log.Stage.TheVariants.{Before, Open}
use Rattle.session.specs.declared.any_log.AnyLog.{AnyLog}
use Rattle.session.specs.declared.any_log.AnyLog.TheVariants.{None, PlainNarrow, PlainWide, PackedNarrow, PackedWide}

-- the halves of the two block lengths
abbrev pub Narrow : Type 0
Narrow = Pair Word

abbrev pub Wide : Type 0
Wide = Pair Narrow

-- by what the four engines and the mode say of themselves
abbrev pub any_view : engines.Ghosts (Keyed (plain.Block Narrow) (KeyHalves Narrow)) → engines.Ghosts (Keyed (plain.Block Wide) (KeyHalves Wide)) → engines.Ghosts (Keyed (packed.Blocks Narrow) WordRow) → engines.Ghosts (Keyed (packed.Blocks Wide) WordRow) → modes.Ghosts StandardMode → AnyLog → Option View
any_view plain_narrow plain_wide packed_narrow packed_wide m None = std.None
any_view plain_narrow plain_wide packed_narrow packed_wide m (PlainNarrow l) = Some (view plain_narrow m l)
any_view plain_narrow plain_wide packed_narrow packed_wide m (PlainWide l) = Some (view plain_wide m l)
any_view plain_narrow plain_wide packed_narrow packed_wide m (PackedNarrow l) = Some (view packed_narrow m l)
any_view plain_narrow plain_wide packed_narrow packed_wide m (PackedWide l) = Some (view packed_wide m l)

-- a session is open once it has a log
abbrev pub stage_of : Option View → Stage
stage_of std.None = Before
stage_of (Some v) = Open
