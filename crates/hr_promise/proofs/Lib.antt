mod GoingLemmas
mod MeasureLemmas
