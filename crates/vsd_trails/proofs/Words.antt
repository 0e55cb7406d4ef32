-- What is packed is what is read.
use Rattle.std.proofs.Common.{◌≡◌, ℕ, suc, ◌+◌, ◌/◌, Option, Some, None, refl, sym, ap, subst, add-one, arith}
use Rattle.vsd_words.specs.declared.handle.Handle.{Handle}
use Rattle.vsd_words.specs.declared.cell_word.CellWord.{CellWord}
use Rattle.vsd_words.specs.declared.cell_word.CellWord.TheVariants.{Lookup, Resolve, Dispatch}
use Rattle.vsd_words.specs.declared.handle_word.HandleWord.{HandleWord}
use Rattle.vsd_words.specs.declared.cast_word.CastWord.{CastWord}
use Rattle.vsd_words.specs.Handle.{IsHandlePacking}
use Rattle.vsd_words.specs.CellWord.{packed_cell}
use Rattle.vsd_words.specs.HandleWord.{IsHandleWordPacking}
use Rattle.vsd_words.specs.CastWord.{IsCastPacking}
use Rattle.vsd_words.proofs.Packings.{handle_packing-below, handle_packing-one_to_one, handle_of_word, handle_word_packing-below, handle_word_packing-one_to_one, handle_word_of_word, cast_packing-one_to_one, cast_of_word, target_of_cast}
use Rattle.vsd_rule.specs.RowSteps.{unpacked_handle, packed_bucket}
use Rattle.vsd_trails.specs.Words.{unpacked_cell, unpacked_handle_word, unpacked_cast, unpacked_bucket}

pub handle_read : (word : ℕ) (h : Handle) → IsHandlePacking h word → unpacked_handle word ≡ h
handle_read word h packs = handle_packing-one_to_one word (unpacked_handle word) h (handle_of_word word (handle_packing-below word h packs)) packs

pub cell_read : (cell : CellWord) → unpacked_cell (packed_cell cell) ≡ cell
cell_read Lookup = refl
cell_read Resolve = refl
cell_read (Dispatch row) = let e : 2 + row ≡ suc (suc row) = omega arith in ap unpacked_cell e

pub handle_word_read : (word : ℕ) (w : HandleWord) → IsHandleWordPacking w word → unpacked_handle_word word ≡ w
handle_word_read word w packs = handle_word_packing-one_to_one word (unpacked_handle_word word) w (handle_word_of_word word (handle_word_packing-below word w packs)) packs

pub cast_read : (word : ℕ) (w : CastWord) → IsCastPacking w word → unpacked_cast word ≡ w
cast_read word w packs =
    let target = target_of_cast word w packs in
    let read = handle_read (word / 2) w.target target in
    cast_packing-one_to_one word (unpacked_cast word) w (cast_of_word word (unpacked_handle (word / 2)) (subst (λ (h : Handle). IsHandlePacking h (word / 2)) (sym read) target)) packs

pub bucket_read : (named : Option ℕ) → unpacked_bucket (packed_bucket named) ≡ named
bucket_read None = refl
bucket_read (Some row) = ap unpacked_bucket (add-one row)
