use Rattle.std.proofs.Common.{refl}
use Rattle.mt_bwfread.specs.Riff.{has_chunk, first_chunk, after_chunk, front_chunks, front_rest, chunks_of, rest_of, content_of}
use Rattle.mt_bwfread.specs.Wave.{is_riff, end_of, is_wave, body_of, numbers_fault, format_fault, fault_in, fault_of, chunks_in, format_of, samples_of, rate_of, channels_of, bits_of, width_of, frames_of, scaled, sample_of}
use Rattle.mt_bwfread.specs.Extension.{text_of, extension_in, bext_of}
use Rattle.mt_bwfread.specs.Cues.{points_in, point_count, cue_chunk, points_of, cues_of}
use Rattle.mt_bwfread.proofs.laws.smallest_wave.Goals as goal

pub returns-clause-read : goal.returns-clause-read
unfolding has_chunk first_chunk after_chunk front_chunks front_rest chunks_of rest_of content_of is_riff end_of is_wave body_of numbers_fault format_fault fault_in fault_of chunks_in format_of samples_of rate_of channels_of bits_of width_of frames_of scaled sample_of
returns-clause-read c = refl

pub returns-clause-rate : goal.returns-clause-rate
unfolding has_chunk first_chunk after_chunk front_chunks front_rest chunks_of rest_of content_of is_riff end_of is_wave body_of numbers_fault format_fault fault_in fault_of chunks_in format_of samples_of rate_of channels_of bits_of width_of frames_of scaled sample_of
returns-clause-rate c = refl

pub returns-clause-channels : goal.returns-clause-channels
unfolding has_chunk first_chunk after_chunk front_chunks front_rest chunks_of rest_of content_of is_riff end_of is_wave body_of numbers_fault format_fault fault_in fault_of chunks_in format_of samples_of rate_of channels_of bits_of width_of frames_of scaled sample_of
returns-clause-channels c = refl

pub returns-clause-bits : goal.returns-clause-bits
unfolding has_chunk first_chunk after_chunk front_chunks front_rest chunks_of rest_of content_of is_riff end_of is_wave body_of numbers_fault format_fault fault_in fault_of chunks_in format_of samples_of rate_of channels_of bits_of width_of frames_of scaled sample_of
returns-clause-bits c = refl

pub returns-clause-frames : goal.returns-clause-frames
unfolding has_chunk first_chunk after_chunk front_chunks front_rest chunks_of rest_of content_of is_riff end_of is_wave body_of numbers_fault format_fault fault_in fault_of chunks_in format_of samples_of rate_of channels_of bits_of width_of frames_of scaled sample_of
returns-clause-frames c = refl

pub returns-clause-sample : goal.returns-clause-sample
unfolding has_chunk first_chunk after_chunk front_chunks front_rest chunks_of rest_of content_of is_riff end_of is_wave body_of numbers_fault format_fault fault_in fault_of chunks_in format_of samples_of rate_of channels_of bits_of width_of frames_of scaled sample_of
returns-clause-sample c = refl

pub returns-clause-bext : goal.returns-clause-bext
unfolding has_chunk first_chunk after_chunk front_chunks front_rest chunks_of rest_of content_of is_riff end_of is_wave body_of numbers_fault format_fault fault_in fault_of chunks_in format_of samples_of rate_of channels_of bits_of width_of frames_of scaled sample_of extension_in bext_of text_of
returns-clause-bext c = refl

pub returns-clause-cues : goal.returns-clause-cues
unfolding has_chunk first_chunk after_chunk front_chunks front_rest chunks_of rest_of content_of is_riff end_of is_wave body_of numbers_fault format_fault fault_in fault_of chunks_in format_of samples_of rate_of channels_of bits_of width_of frames_of scaled sample_of points_in point_count cue_chunk points_of cues_of
returns-clause-cues c = refl

pub returns-clause-not_riff : goal.returns-clause-not_riff
unfolding has_chunk first_chunk after_chunk front_chunks front_rest chunks_of rest_of content_of is_riff end_of is_wave body_of numbers_fault format_fault fault_in fault_of chunks_in format_of samples_of rate_of channels_of bits_of width_of frames_of scaled sample_of
returns-clause-not_riff c = refl

pub returns-clause-not_wave : goal.returns-clause-not_wave
unfolding has_chunk first_chunk after_chunk front_chunks front_rest chunks_of rest_of content_of is_riff end_of is_wave body_of numbers_fault format_fault fault_in fault_of chunks_in format_of samples_of rate_of channels_of bits_of width_of frames_of scaled sample_of
returns-clause-not_wave c = refl

pub returns-clause-no_fmt : goal.returns-clause-no_fmt
unfolding has_chunk first_chunk after_chunk front_chunks front_rest chunks_of rest_of content_of is_riff end_of is_wave body_of numbers_fault format_fault fault_in fault_of chunks_in format_of samples_of rate_of channels_of bits_of width_of frames_of scaled sample_of
returns-clause-no_fmt c = refl

pub returns-clause-truncated : goal.returns-clause-truncated
unfolding has_chunk first_chunk after_chunk front_chunks front_rest chunks_of rest_of content_of is_riff end_of is_wave body_of numbers_fault format_fault fault_in fault_of chunks_in format_of samples_of rate_of channels_of bits_of width_of frames_of scaled sample_of
returns-clause-truncated c = refl

pub returns-clause-no_data : goal.returns-clause-no_data
unfolding has_chunk first_chunk after_chunk front_chunks front_rest chunks_of rest_of content_of is_riff end_of is_wave body_of numbers_fault format_fault fault_in fault_of chunks_in format_of samples_of rate_of channels_of bits_of width_of frames_of scaled sample_of
returns-clause-no_data c = refl

pub returns-clause-sample_truncated : goal.returns-clause-sample_truncated
unfolding has_chunk first_chunk after_chunk front_chunks front_rest chunks_of rest_of content_of is_riff end_of is_wave body_of numbers_fault format_fault fault_in fault_of chunks_in format_of samples_of rate_of channels_of bits_of width_of frames_of scaled sample_of
returns-clause-sample_truncated c = refl
