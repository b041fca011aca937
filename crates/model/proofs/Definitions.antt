-- The definitions of document 01 to be unfolded together: a statement with `unfolding definitions` is computed by the checker. Assumes nothing.
use mathlib.Core.Bool.{Bool, true}
use Rattle.words.specs.Lists
use Rattle.words.specs.Bits
use Rattle.words.specs.Bytes
use Rattle.model.specs.Answers
use Rattle.model.specs.Capabilities
use Rattle.model.specs.Shape
use Rattle.model.specs.Registers
use Rattle.model.specs.Vectors
use Rattle.model.specs.Packets
use Rattle.model.specs.Release
use Rattle.model.specs.Start
use Rattle.model.specs.Sound
use Rattle.model.specs.Image
use Rattle.model.specs.Withdrawals
use Rattle.model.specs.Calls
use Rattle.model.specs.Play
use Rattle.model.specs.History

unfoldable pub definitions : Bool
unfolding
    Lists.count Lists.keep Lists.all Lists.member Lists.join Lists.each_at Lists.all_at Lists.same Lists.within Lists.overlap Lists.first_of Lists.lacks
    Bits.bit Bits.field Bits.of_bool Bits.clear Bits.clear_bit Bits.set_bit Bits.merge
    Bytes.bit_at Bytes.number Bytes.word16 Bytes.word32 Bytes.words32 Bytes.bytes_of Bytes.bytes_high Bytes.part
    Capabilities.pointer Capabilities.walk_step Capabilities.walk Capabilities.capabilities Capabilities.broken Capabilities.listed Capabilities.with_id
    Shape.forms Shape.form_of Shape.msi_at Shape.region_at Shape.msix_at Shape.no_msi Shape.no_msix Shape.msi_of Shape.msix_of Shape.shape_in Shape.shape_of Shape.msi_present
    Shape.msix_present Shape.msi_vectors Shape.table_bytes Shape.pending_bytes
    Registers.header_writable Registers.header_zero Registers.mask_bytes Registers.in_mask Registers.in_pending_register Registers.data_bytes Registers.msi_writable Registers.msi_zero
    Registers.msix_writable Registers.in_msi Registers.in_msix Registers.writable Registers.stored_zero Registers.fixed_byte Registers.entry_writable Registers.entry_zero
    Registers.written Registers.shown Registers.in_region Registers.in_table Registers.in_pending Registers.bar_byte Registers.started_config Registers.started_table
    Vectors.command_bit Vectors.msi_control_bit Vectors.msix_control_bit Vectors.enable_field Vectors.mode_of Vectors.same_mode Vectors.in_force Vectors.granted Vectors.entry_masked
    Vectors.masked Vectors.enabled Vectors.is_open Vectors.vector_of Vectors.means Vectors.pending_bit Vectors.waits Vectors.change_waiting Vectors.vector_count Vectors.owed
    Packets.message Packets.wire_message Packets.msi_address Packets.msi_upper Packets.data_extended Packets.msi_data Packets.entry_message Packets.message_of
    Release.pin_number Release.is_pin Release.level_due Release.wire_due Release.wire_change Release.clear_all Release.swept_for Release.bytes_for Release.owed_now Release.swept
    Release.sweep_bytes Release.settle_bytes Release.raise_vector Release.raise Release.raised_by
    Start.bad_header Start.twice Start.misplaced Start.bad_structures Start.outside Start.bad_regions Start.bad_events Start.bad_requester Start.bad_buffers Start.start_refusal
    Sound.zero_bits Sound.waits_below Sound.is_empty Sound.sound_endpoint Sound.sound
    Image.mark Image.flags Image.card_bytes Image.image_of Image.function_from Image.card_in Image.world_in Image.is_saved Image.restore_refusal
    Withdrawals.withdraw_rows Withdrawals.withdrawn Withdrawals.was_set
    Calls.is_save Calls.bad_config Calls.bad_bar Calls.no_memory Calls.rows Calls.changed Calls.next Calls.sends Calls.answer_of Calls.answered Calls.if_room Calls.performed
    Calls.step Calls.start_of Calls.restore_of
    History.is_vector
    Answers.refusal_of Answers.is_accepted Answers.value_of Answers.event_code Answers.same_answer
    Play.right Play.played Play.played_all Play.passes Play.all_pass
definitions = true
